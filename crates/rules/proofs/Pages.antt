-- Beyond demand 3: what the conversions answer, and what they refuse.
pub mod PagesRight
pub mod PagesRefused
