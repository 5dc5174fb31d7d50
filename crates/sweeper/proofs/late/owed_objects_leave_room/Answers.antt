use Rattle.sweeper.proofs.OwedRoom.{OwedObjectsLeaveRoom-holds}
use Rattle.sweeper.proofs.late.owed_objects_leave_room.Goals as goal

pub returns : goal.returns
returns c = OwedObjectsLeaveRoom-holds
