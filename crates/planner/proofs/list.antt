-- What `fill`'s proof uses: lemmas on lists. Assumes nothing.
mod Filled
