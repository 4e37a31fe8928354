-- What the store leaves, the store takes. What makes a state possible; entries and messages that pass.
pub mod ValidMade
pub mod EntriesMade
pub mod Passing
-- Courses, steps, sites and calls that keep it so.
pub mod CourseFits
pub mod StepsFit
pub mod SitesFit
pub mod CallsFit
pub mod RequestsFit
pub mod DeliveryFits
pub mod Kept
-- What is refused 2, or stops the next message.
pub mod WhyRefused
pub mod NextGoes
pub mod Possible
