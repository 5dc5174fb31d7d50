-- Whether an outcome belongs to a script speaks of its limits and its phases, and not of its version.
use Rattle.table_laws.specs.Laws.{VersionsAgree}

pub versions-agree : VersionsAgree
versions-agree script parts outcome =
    (λ h. record { legal = h.legal; phases = h.phases; totals = h.totals }, λ h. record { legal = h.legal; phases = h.phases; totals = h.totals })
