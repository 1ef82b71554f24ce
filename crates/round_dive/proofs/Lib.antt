pub mod FeasiblePoints
pub mod Ends
pub mod FixedColumns
pub mod NarrowerRuns
pub mod FixedBoxes
pub mod SoundDives
pub mod FreeColumns
pub mod Examples
