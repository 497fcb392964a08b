mod ImageLemmas
mod DownloadLemmas
