-- What there is to write of a log before it comes.
mod Begins
