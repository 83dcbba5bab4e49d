mod SmallGraph
