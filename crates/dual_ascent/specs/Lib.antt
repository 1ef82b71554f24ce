pub mod Climbs
pub mod Ascents
pub mod Laws
pub mod Ends
pub mod Kept
pub mod KeptClimbs
