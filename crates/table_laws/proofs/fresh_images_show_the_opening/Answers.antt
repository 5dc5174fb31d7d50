use Rattle.table_laws.proofs.fresh_images_show_the_opening.Goals as goal
use Rattle.plain_table.proofs.OpeningShows.{IsLawful-fresh}

pub returns : goal.returns
returns c = IsLawful-fresh
