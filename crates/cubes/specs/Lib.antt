-- What an array of node counts or of corners stands for, and the laws of the table's rows and of the cube's edges.
pub mod Words
pub mod Laws
