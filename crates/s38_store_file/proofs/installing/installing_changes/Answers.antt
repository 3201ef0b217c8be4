use Rattle.s38_store_file.proofs.InstallLaws.{installed_numbers, installed_storable}
use Rattle.s38_store_file.proofs.installing.installing_changes.Goals as goal

pub first_changes-requires-clause-storable : goal.first_changes-requires-clause-storable
first_changes-requires-clause-storable c = installed_storable c.args.objects.now c.requires

pub first_changes-requires-clause-numbers : goal.first_changes-requires-clause-numbers
first_changes-requires-clause-numbers c = installed_numbers c.args.objects.now c.requires
