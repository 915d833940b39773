mod LineLaws
mod HoldLaws
mod TextLaws
mod InputLaws
