-- What a transition does.
pub mod Transition
pub mod Fits
pub mod Step
