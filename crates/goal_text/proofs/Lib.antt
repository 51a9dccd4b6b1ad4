mod Listed
mod Signs
