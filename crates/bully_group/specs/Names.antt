-- What names no group.
use Rattle.bully_base.specs.Setup.{Setup, even_setup}

abbrev pub no_setup : Setup
no_setup = even_setup 0 0 0
