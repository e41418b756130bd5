mod BuildsKept
mod OnePool
