-- Which answers are for people, and not for programs.
use Rattle.std.specs.Prelude.{Bool, false, not}
use Rattle.bully_cli.specs.Words.{Asked, annotating, checking, completing, drawing, explaining, following, planning}
use Rattle.bully_cli.specs.Words.{playing, running, upgrading}
use Rattle.bully.specs.Answer.{is_given}

abbrev pub is_for_people : Asked → Bool
is_for_people (checking file json) = not (is_given json)
is_for_people (explaining file config json) = not (is_given json)
is_for_people (following file json) = not (is_given json)
is_for_people (drawing words) = is_given words.text
is_for_people (upgrading file) = false
is_for_people (annotating file) = false
is_for_people (playing path) = false
is_for_people (running path) = false
is_for_people (planning path members old json) = false
is_for_people (completing shell) = false
