-- The proofs of releasing: the scan for the next cell that watches a number, what holds a token, and parts of the cells that std's methods write.
mod Holds
mod Parts
mod Room
mod Scanning
