-- Each call that asks a range of tags is made by the session call of its name.
use Rattle.std.proofs.Common.{refl}
use Rattle.plain_table.specs.declared.scripts.Op.TheVariants as op
use Rattle.phase_calls.proofs.LinksInOrder.{Makes-ranged}
use Rattle.phase_calls.proofs.dispatch.make_ranged_call.Goals as goal

pub returns-in-Load-clause-makes : goal.returns-in-Load-clause-makes
returns-in-Load-clause-makes c =
    Makes-ranged _ _ _ _ (λ first last. op.Load c.in-Load.var c.in-Load.f first last) c.in-Load.first c.in-Load.last c.known_range.result c.in-Load.is c.known_range.ensures
    (λ held. refl) c.load.ensures.made c.load.ensures.leaves.hands

pub returns-in-Store-clause-makes : goal.returns-in-Store-clause-makes
returns-in-Store-clause-makes c =
    Makes-ranged _ _ _ _ (λ first last. op.Store c.in-Store.var c.in-Store.f first last c.in-Store.value) c.in-Store.first c.in-Store.last c.known_range-in-Store.result c.in-Store.is c.known_range-in-Store.ensures
    (λ held. refl) c.store.ensures.made c.store.ensures.leaves.hands

pub returns-in-Swap-clause-makes : goal.returns-in-Swap-clause-makes
returns-in-Swap-clause-makes c =
    Makes-ranged _ _ _ _ (λ first last. op.Swap c.in-Swap.var c.in-Swap.f first last c.in-Swap.value) c.in-Swap.first c.in-Swap.last c.known_range-in-Swap.result c.in-Swap.is c.known_range-in-Swap.ensures
    (λ held. refl) c.swap.ensures.made c.swap.ensures.leaves.hands

pub returns-in-Raw-clause-makes : goal.returns-in-Raw-clause-makes
returns-in-Raw-clause-makes c =
    Makes-ranged _ _ _ _ (λ first last. op.Raw c.in-Raw.word first last) c.in-Raw.first c.in-Raw.last c.known_range-in-Raw.result c.in-Raw.is c.known_range-in-Raw.ensures
    (λ held. refl) c.raw_load.ensures.made c.raw_load.ensures.leaves.hands

pub returns-in-RawSet-clause-makes : goal.returns-in-RawSet-clause-makes
returns-in-RawSet-clause-makes c =
    Makes-ranged _ _ _ _ (λ first last. op.RawSet c.in-RawSet.word first last c.in-RawSet.value) c.in-RawSet.first c.in-RawSet.last c.known_range-in-RawSet.result c.in-RawSet.is c.known_range-in-RawSet.ensures
    (λ held. refl) c.raw_store.ensures.made c.raw_store.ensures.leaves.hands

pub returns-in-TLoad-clause-makes : goal.returns-in-TLoad-clause-makes
returns-in-TLoad-clause-makes c =
    Makes-ranged _ _ _ _ (λ first last. op.TLoad c.in-TLoad.var first last) c.in-TLoad.first c.in-TLoad.last c.known_range-in-TLoad.result c.in-TLoad.is c.known_range-in-TLoad.ensures
    (λ held. refl) c.tload.ensures.made c.tload.ensures.leaves.hands

pub returns-in-TRaw-clause-makes : goal.returns-in-TRaw-clause-makes
returns-in-TRaw-clause-makes c =
    Makes-ranged _ _ _ _ (λ first last. op.TRaw c.in-TRaw.word first last) c.in-TRaw.first c.in-TRaw.last c.known_range-in-TRaw.result c.in-TRaw.is c.known_range-in-TRaw.ensures
    (λ held. refl) c.traw.ensures.made c.traw.ensures.leaves.hands
