use Rattle.bully_replica.proofs.RowReplicaLemmas.{all_followed, part_followed, rows_grow, setup_stays}
use Rattle.bully_replica.proofs.row_replica.RowReplica.learn_all.Goals as goal

pub returns-clause-all : goal.returns-clause-all
returns-clause-all g c = all_followed c.feed_each-taken.result c.args.reader.now c.feed_each-taken.new.rows c.args.self.now c.feed_each-taken.new.sink c.feed_each-taken.ensures.all

pub returns-clause-part : goal.returns-clause-part
returns-clause-part g c = part_followed c.feed_each-taken.result c.args.reader.now c.feed_each-taken.new.rows c.args.self.now c.feed_each-taken.new.sink c.feed_each-taken.ensures.part

pub returns-clause-counted : goal.returns-clause-counted
returns-clause-counted g c = rows_grow c.feed_each-taken.result c.args.reader.now c.feed_each-taken.new.rows c.args.self.now c.feed_each-taken.new.sink c.feed_each-taken.ensures.all c.feed_each-taken.ensures.part

pub returns-clause-setup : goal.returns-clause-setup
returns-clause-setup g c = setup_stays c.feed_each-taken.result c.args.reader.now c.feed_each-taken.new.rows c.args.self.now c.feed_each-taken.new.sink c.feed_each-taken.ensures.all c.feed_each-taken.ensures.part
