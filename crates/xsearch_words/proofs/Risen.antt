-- A count that has risen over a later or an earlier part of a run has risen over the whole.
use Rattle.std.proofs.Common.{ℕ, ◌≤◌, Option, arith}
use Rattle.xsearch_words.specs.Faults.{HasRisen, HasFailed}
use Rattle.xsearch_words.specs.declared.fault.LastFault.{LastFault}

pub HasRisen-after : (a b c : ℕ) → a ≤ b → b ≤ c → HasRisen b c → HasRisen a c
HasRisen-after a b c first then risen = record { higher = λ ne. grind (arith, risen.higher) }

pub HasRisen-before : (a b c : ℕ) → HasRisen a b → b ≤ c → HasRisen a c
HasRisen-before a b c risen then = record { higher = λ ne. omega (arith, risen.higher ne, then) }

pub HasFailed-after : (a b c : ℕ) (last : Option LastFault) (fault : LastFault) → a ≤ b → b ≤ c → HasFailed b c last fault → HasFailed a c last fault
HasFailed-after a b c last fault first then failed = record {
  counted = HasRisen-after a b c first then failed.counted;
  kept = failed.kept;
}
