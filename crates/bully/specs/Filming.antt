-- Rows that are filmed and taken to an account.
use Rattle.std.specs.Prelude.{List}
use Rattle.bully_account.specs.Accounts.{HasTakenBehind}
use Rattle.bully_film.specs.Film.{HasFilmedBehind}
use Rattle.bully_film.specs.Window.{WindowState}
use Rattle.bully_rows.specs.declared.header.Header.{Header}
use Rattle.bully_rows.specs.declared.trace.Row.{Row}
use Rattle.bully.specs.declared.filming.FilmWithAccount.{FilmWithAccount}

-- the rows of a trace with this header were filmed, for this window, and taken to the account
abbrev pub HasFilmedWithAccount : WindowState → Header → List Row → FilmWithAccount → Type 0
HasFilmedWithAccount window header rows both = HasFilmedBehind window header rows both.film
    × HasTakenBehind header rows both.account
