mod Anys
mod BoardSets
mod Corners
pub mod Counts
mod Filled
mod Gather
mod Joined
mod Layers
mod Lowest
mod Sizes
mod Stands
mod Tied
mod Totals
