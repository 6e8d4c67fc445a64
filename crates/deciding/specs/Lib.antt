-- What the verdict on a readable file decides, in its own words.
pub mod Decision
