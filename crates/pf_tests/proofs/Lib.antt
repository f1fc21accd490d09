pub mod TestedSides
