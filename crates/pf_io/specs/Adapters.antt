-- What stands behind a source or a sink over std.
use Rattle.pf_io.specs.declared.adapters.StdSource.{StdSource}
use Rattle.pf_io.specs.declared.adapters.StdSink.{StdSink}

-- the reader behind a source
abbrev pub reader_of : {R : Type 0} → StdSource R → R
reader_of s = s.reader

-- the writer behind a sink
abbrev pub writer_of : {W : Type 0} → StdSink W → W
writer_of s = s.writer
