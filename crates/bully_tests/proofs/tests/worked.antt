mod Trial
mod Claims
mod Scripts
