use Rattle.std.proofs.Common.{◌∙◌, [], ◌∷◌, pos, refl, ap, arith}
use Rattle.work_stamp.specs.declared.entry.Entry.TheVariants.{Start, Done, Closed, Halt}
use Rattle.node_pool.specs.Lemmas.Joining.{joins_at}
use Rattle.node_pool.specs.Runs.{dives, split_root, without_keys}
use Rattle.node_pool.specs.Views.{View, open_node, after_entry}
use Rattle.node_pool.proofs.tests.the_search_ends.Goals as goal

pub absorb-requires : goal.absorb-requires
absorb-requires c =
    joins_at c.args.model.now dives (without_keys (Start 0 ∷ split_root ∷ Closed 4 ∷ Done ∷ []))
    c.in_ok-pool.pool (Start 5) c.in_ok-pool.ensures
    (record { short = omega arith; joins = record { node = open_node 5 (pos 0); first = refl } })

pub absorb-requires-2 : goal.absorb-requires-2
absorb-requires-2 c =
    let is = c.in_ok-absorb.ensures
    ∙ ap (λ (v : View). after_entry c.args.model.now v (Start 5)) c.in_ok-pool.ensures in
    joins_at c.args.model.now dives
    (without_keys (Start 0 ∷ split_root ∷ Closed 4 ∷ Done ∷ Start 5 ∷ [])) c.absorb.new.self
    (Closed 5) is (record { short = omega arith; joins = record { among = refl } })

pub absorb-requires-3 : goal.absorb-requires-3
absorb-requires-3 c =
    let is = c.in_ok-absorb-2.ensures
    ∙ ap (λ (v : View). after_entry c.args.model.now v (Closed 5))
    (c.in_ok-absorb.ensures ∙ ap (λ (v : View). after_entry c.args.model.now v (Start 5)) c.in_ok-pool.ensures) in
    joins_at c.args.model.now dives
    (without_keys (Start 0 ∷ split_root ∷ Closed 4 ∷ Done ∷ Start 5 ∷ Closed 5 ∷ []))
    c.absorb-2.new.self Halt is (record { short = omega arith; joins = tt })
