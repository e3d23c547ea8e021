-- What a `StreamSink` writes to.
use Rattle.base_files.specs.declared.stream_sink.StreamSink.{StreamSink}

-- its writer
abbrev pub writer_of : {W : Type 0} → StreamSink W → W
writer_of sink = sink.writer
