mod Drafting
mod Making
