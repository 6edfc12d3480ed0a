mod Contents
mod Determined
mod Differences
mod Drafting
mod Places
mod Splits
mod Standing
