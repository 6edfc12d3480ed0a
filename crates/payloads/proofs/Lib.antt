mod Clauses
mod EachEntry
mod ListedFiles
mod Lists
mod ManifestClauses
mod NameBytes
mod RoaClauses
mod TwoLists
