-- the file of the list
pub mod ListText
-- the sectors of a list, and numbers as text
pub mod Numbers
-- what a look at all pages finds
pub mod Look
-- why lost sectors were not found
pub mod Found
