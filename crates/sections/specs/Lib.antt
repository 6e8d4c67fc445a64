-- The sections of a file: variables, transitions, nodes, edges, and the fields of their records.
pub mod Section
