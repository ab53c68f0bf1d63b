mod DifferingLemmas
mod SheetLemmas
mod SidesLemmas
