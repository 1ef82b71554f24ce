use Rattle.std.proofs.Common.{◌∙◌, [], ◌∷◌, refl, ap, arith}
use Rattle.std.proofs.lemmas.Int.{ints}
use Rattle.work_stamp.specs.declared.entry.Entry.TheVariants.{Start, Done, Closed}
use Rattle.node_pool.specs.Lemmas.Joining.{joins_at}
use Rattle.node_pool.specs.Runs.{dives, split_root, without_keys}
use Rattle.node_pool.specs.Views.{View, open_node, after_entry}
use Rattle.node_pool.proofs.tests.half_done.Goals as goal

pub absorb-requires : goal.absorb-requires
absorb-requires c =
    joins_at c.args.model.now dives [] c.in_ok-pool.pool (Start 0) c.in_ok-pool.ensures
    (record { short = omega arith; joins = record { node = open_node 0 _; first = refl } })

pub absorb-requires-2 : goal.absorb-requires-2
absorb-requires-2 c =
    let is = c.in_ok-absorb.ensures
    ∙ ap (λ (v : View). after_entry c.args.model.now v (Start 0)) c.in_ok-pool.ensures in
    joins_at c.args.model.now dives (without_keys (Start 0 ∷ [])) c.absorb.new.self split_root is
    (record {
      short = omega arith;
      joins = record {
        held = record { among = refl };
        cut = record {
          known = c.requires;
          above = omega (arith, ints);
          below = omega (arith, ints);
          keeps = omega arith;
        };
        room = omega arith;
        first_new = refl;
        second_new = refl;
      };
    })

pub absorb-requires-3 : goal.absorb-requires-3
absorb-requires-3 c =
    let is = c.in_ok-absorb-2.ensures
    ∙ ap (λ (v : View). after_entry c.args.model.now v split_root)
    (c.in_ok-absorb.ensures ∙ ap (λ (v : View). after_entry c.args.model.now v (Start 0)) c.in_ok-pool.ensures) in
    joins_at c.args.model.now dives (without_keys (Start 0 ∷ split_root ∷ [])) c.absorb-2.new.self
    (Closed 4) is (record { short = omega arith; joins = record { among = refl } })

pub absorb-requires-4 : goal.absorb-requires-4
absorb-requires-4 c =
    let split = c.in_ok-absorb-2.ensures
    ∙ ap (λ (v : View). after_entry c.args.model.now v split_root)
    (c.in_ok-absorb.ensures ∙ ap (λ (v : View). after_entry c.args.model.now v (Start 0)) c.in_ok-pool.ensures) in
    let is = c.in_ok-absorb-3.ensures ∙ ap (λ (v : View). after_entry c.args.model.now v (Closed 4)) split in
    joins_at c.args.model.now dives (without_keys (Start 0 ∷ split_root ∷ Closed 4 ∷ []))
    c.absorb-3.new.self Done is (record { short = omega arith; joins = tt })
