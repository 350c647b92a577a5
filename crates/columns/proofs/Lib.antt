mod Among
mod ColumnLeaves
mod RowValues
