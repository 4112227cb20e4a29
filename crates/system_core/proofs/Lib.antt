mod Places
mod Ordered
mod Claimed
mod Holdings
mod Sealing
mod Runs
