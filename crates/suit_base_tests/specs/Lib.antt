pub mod SparsePrograms
