pub mod Grammar
pub mod Met
pub mod Numbers
