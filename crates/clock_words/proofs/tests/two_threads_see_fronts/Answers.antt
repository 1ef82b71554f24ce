use Rattle.clock_words.proofs.SampleRows.{numbers_within}
use Rattle.clock_words.proofs.tests.two_threads_see_fronts.Goals as goal

pub two_seats-requires-clause-within : goal.two_seats-requires-clause-within
two_seats-requires-clause-within g c = numbers_within
