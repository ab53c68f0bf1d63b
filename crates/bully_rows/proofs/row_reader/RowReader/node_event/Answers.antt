use Rattle.bully_rows.proofs.row_reader.RowReader.node_event.Goals as goal

pub returns-clause-event : goal.returns-clause-event
returns-clause-event g c = rw (← c.self.view_is) c.read_node_event.ensures.event

pub returns-clause-none : goal.returns-clause-none
returns-clause-none g c = rw (← c.self.view_is) c.read_node_event.ensures.none
