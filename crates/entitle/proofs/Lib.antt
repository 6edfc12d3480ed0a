mod Reaching
mod Parents
mod Arriving
mod Those
