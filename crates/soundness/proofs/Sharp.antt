mod Files
mod System
mod Claims
mod Picks
mod Computing
