-- Each call is made by the session call of its name.
use Rattle.std.proofs.Common.{refl, subst}
use Rattle.plain_table.specs.declared.scripts.Op.TheVariants as op
use Rattle.script_reader.specs.Valid.{IsValidOp}
use Rattle.phase_calls.proofs.LinksInOrder.{Makes-known, Makes-link, Makes-tagged, hands-holds}
use Rattle.phase_calls.proofs.dispatch.make_call.Goals as goal

pub returns-in-New-clause-makes : goal.returns-in-New-clause-makes
returns-in-New-clause-makes c = Makes-known _ _ _ _ _ c.in-New.is (λ held. refl) c.new_object.ensures.made (hands-holds _ c.in-New.var _ _ c.new_object.ensures.holds)

pub returns-in-Drop-clause-makes : goal.returns-in-Drop-clause-makes
returns-in-Drop-clause-makes c = Makes-known _ _ _ _ _ c.in-Drop.is (λ held. refl) c.drop_var.ensures.made c.drop_var.ensures.holds.rest.3

pub returns-in-Fetch-clause-makes : goal.returns-in-Fetch-clause-makes
returns-in-Fetch-clause-makes c = Makes-known _ _ _ _ _ c.in-Fetch.is (λ held. refl) c.fetch.ensures.made (hands-holds _ c.in-Fetch.into _ _ c.fetch.ensures.holds)

pub returns-in-SetG-clause-makes : goal.returns-in-SetG-clause-makes
returns-in-SetG-clause-makes c = Makes-known _ _ _ _ _ c.in-SetG.is (λ held. refl) c.link_global.ensures.made c.link_global.ensures.leaves.hands

pub returns-in-GetG-clause-makes : goal.returns-in-GetG-clause-makes
returns-in-GetG-clause-makes c = Makes-known _ _ _ _ _ c.in-GetG.is (λ held. refl) c.fetch_global.ensures.made (hands-holds _ c.in-GetG.into _ _ c.fetch_global.ensures.holds)

pub returns-in-Name-clause-makes : goal.returns-in-Name-clause-makes
returns-in-Name-clause-makes c = Makes-known _ _ _ _ _ c.in-Name.is (λ held. refl) c.name.ensures.made c.name.ensures.leaves.hands

pub returns-in-Forge-clause-makes : goal.returns-in-Forge-clause-makes
returns-in-Forge-clause-makes c = Makes-known _ _ _ _ _ c.in-Forge.is (λ held. refl) c.forge.ensures.made c.forge.ensures.leaves.hands

pub returns-in-TPub-clause-makes : goal.returns-in-TPub-clause-makes
returns-in-TPub-clause-makes c = Makes-known _ _ _ _ _ c.in-TPub.is (λ held. refl) c.publish.ensures.made c.publish.ensures.leaves.hands

pub returns-in-Share-clause-makes : goal.returns-in-Share-clause-makes
returns-in-Share-clause-makes c = Makes-known _ _ _ _ _ c.in-Share.is (λ held. refl) c.share.ensures.made c.share.ensures.leaves.hands

pub returns-in-Link-clause-makes : goal.returns-in-Link-clause-makes
returns-in-Link-clause-makes c =
    let valid = subst (IsValidOp 2) c.in-Link.is c.requires.valid in
    Makes-link _ _ c.in-Link.var c.in-Link.k _ valid.0 c.link.ensures.kinds _ c.in-Link.target c.link.result.shaded c.in-Link.is valid.2 c.link.ensures.made
    c.link.ensures.hands c.link.ensures.empty c.link.ensures.shaded c.link.ensures.covered

pub returns-in-Init-clause-makes : goal.returns-in-Init-clause-makes
returns-in-Init-clause-makes c =
    Makes-tagged _ _ _ _ (λ tag. op.Init c.in-Init.var c.in-Init.f tag c.in-Init.value) c.in-Init.tag c.known_tag.result c.in-Init.is c.known_tag.ensures
    (λ held. refl) c.init.ensures.made c.init.ensures.leaves.hands

pub returns-in-TNew-clause-makes : goal.returns-in-TNew-clause-makes
returns-in-TNew-clause-makes c =
    Makes-tagged _ _ _ _ (λ tag. op.TNew c.in-TNew.var tag c.in-TNew.value) c.in-TNew.tag c.known_tag-in-TNew.result c.in-TNew.is c.known_tag-in-TNew.ensures
    (λ held. refl) c.tnew.ensures.made c.tnew.ensures.leaves.hands
