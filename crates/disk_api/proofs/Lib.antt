mod Pieces
mod Replay
mod Same
mod Taken
