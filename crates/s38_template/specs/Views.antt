-- What the definitions see of a reader.
use Rattle.s38_template.specs.declared.reader.Reader.{Reader}
use Rattle.s38_template.specs.Reading.{ReadingState}

abbrev pub state_of : Reader → ReadingState
state_of r = record { place = r.place; templates = r.templates; draft = r.draft; labels = r.labels; declared = r.declared; acts = r.acts; names = r.names; jobs = r.jobs; job_names = r.job_names; stage = r.stage }
