pub mod WhatIsCounted
pub mod Growing
pub mod Nodes
pub mod Paths
pub mod TreeEnds
pub mod TreeLaws
pub mod Trees
