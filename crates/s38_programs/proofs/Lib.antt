mod CallLaws
mod CreationLaws
mod RoomLaws
