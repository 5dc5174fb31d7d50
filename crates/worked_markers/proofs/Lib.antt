mod HandsPushed
mod LeftObjects
mod TakenChunks
