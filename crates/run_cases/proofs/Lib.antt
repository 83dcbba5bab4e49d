pub mod RisingGraphs
pub mod RisingGraph
