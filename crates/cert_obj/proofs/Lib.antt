mod Leaves
mod Written
