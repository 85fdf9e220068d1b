mod Examples
mod HazardLaws
mod LastLaws
mod NumberLaws
