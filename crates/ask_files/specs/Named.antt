-- Names of files as texts.
use Rattle.ask_files.specs.Files.{NamedFile as NameOf}
use Rattle.ask_files.specs.declared.files.NamedFile.{NamedFile}

-- what a file holds, and its name as a text
abbrev pub name_of : NamedFile → NameOf
name_of file = (file.which, file.name.now)
