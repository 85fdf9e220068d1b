mod Tens
mod Reading
