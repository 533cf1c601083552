pub mod SoundTables
