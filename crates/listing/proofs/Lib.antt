-- What a call does, as the program goes by it.
mod Calls
