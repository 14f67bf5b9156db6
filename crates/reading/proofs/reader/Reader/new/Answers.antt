use Rattle.reading.proofs.reader.Reader.new.Goals as goal

pub returns : goal.returns
returns c = c.part.ensures
