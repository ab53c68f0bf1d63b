mod MarkLemmas
mod SentLemmas
mod StrokeLemmas
mod TextLemmas
mod WordLemmas
